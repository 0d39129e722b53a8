-- The line of a text that is no document to go with an outline: `refused second`, and the fault.
use Rattle.std.specs.Prelude.{ℕ, List, [], ◌++◌, codes, decimal}
use Rattle.pg_document.specs.declared.fault.DocFault.{DocFault}
use Rattle.pg_document.specs.declared.fault.DocFault.TheVariants.{Unexpected, Version, NoMemory}

-- want of memory has no line
abbrev pub document_line : DocFault → List ℕ
document_line (Unexpected place) = codes "refused second " ++ (decimal place ++ codes " unexpected\n")
document_line (Version n) = codes "refused second version " ++ (decimal n ++ codes "\n")
document_line NoMemory = []
