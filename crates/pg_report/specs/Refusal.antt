-- The line of a file that stands for no outline: `refused`, and the fault. A fault of its tokens has its place before it.
use Rattle.std.specs.Prelude.{ℕ, List, [], ◌++◌, codes, decimal, Option, Some, None}
use Rattle.pg_lex.specs.declared.fault.TextFault.{TextFault}
use Rattle.pg_lex.specs.declared.fault.TextFault.TheVariants.{At, NoMemory}
use Rattle.pg_lex.specs.declared.fault.TextKind.{TextKind}
use Rattle.pg_lex.specs.declared.fault.TextKind.TheVariants.{NotAscii, BadCharacter, NumberTooLarge, NameTooLong, Unexpected, UnknownName, Redeclared, TooMany, TooDeep}
use Rattle.pg_program.specs.Fault as program
use Rattle.pg_outline.specs.declared.fault.OutlineFault.{OutlineFault}
use Rattle.pg_outline.specs.declared.fault.OutlineFault.TheVariants as outline
use Rattle.pg_outline_text.specs.Fault.{Fault, of_text, other_version, of_program, of_outline}

abbrev pub kind_text : TextKind → List ℕ
kind_text NotAscii = codes "not ascii"
kind_text BadCharacter = codes "bad character"
kind_text NumberTooLarge = codes "number too large"
kind_text NameTooLong = codes "name too long"
kind_text Unexpected = codes "unexpected"
kind_text UnknownName = codes "unknown name"
kind_text Redeclared = codes "redeclared"
kind_text TooMany = codes "too many"
kind_text TooDeep = codes "too deep"

abbrev pub text_fault : TextFault → List ℕ
text_fault (At place kind) = decimal place ++ (codes " " ++ kind_text kind)
text_fault NoMemory = []

abbrev pub program_fault : program.Fault → List ℕ
program_fault (program.domain_size n) = codes "domain " ++ decimal n
program_fault (program.unknown_thread t) = codes "unknown thread " ++ decimal t
program_fault (program.foreign_register name) = codes "foreign register " ++ (name ++ [])
program_fault (program.aux_in_program name) = codes "auxiliary " ++ (name ++ codes " in program")
program_fault (program.aux_twice name) = codes "auxiliary " ++ (name ++ codes " twice")
program_fault (program.value_out_of_domain v) = codes "value " ++ decimal v
program_fault (program.expression_names at) = codes "expression " ++ (decimal at.thread ++ (codes "." ++ decimal at.point))

abbrev pub outline_fault : OutlineFault → List ℕ
outline_fault (outline.ValueOutOfDomain v) = codes "value " ++ decimal v
outline_fault (outline.UnknownThread t) = codes "unknown thread " ++ decimal t
outline_fault (outline.CrashLocations n) = codes "crash locations " ++ decimal n
outline_fault (outline.CrashNodes n) = codes "crash nodes " ++ decimal n
outline_fault outline.NoMemory = []

abbrev pub fault_text : Fault → List ℕ
fault_text (of_text f) = text_fault f
fault_text (other_version n) = codes "version " ++ decimal n
fault_text (of_program f) = program_fault f
fault_text (of_outline f) = outline_fault f

-- a fault of the program, if there is one
abbrev pub program_text : Option program.Fault → List ℕ
program_text (Some f) = program_fault f
program_text None = []

abbrev pub words_of : Option Fault → List ℕ
words_of (Some f) = fault_text f
words_of None = []

-- the line of a fault
abbrev pub refusal : Fault → List ℕ
refusal f = codes "refused " ++ (fault_text f ++ codes "\n")

-- want of memory has no line
abbrev pub line_of : Option Fault → List ℕ
line_of (Some f) = refusal f
line_of None = []
