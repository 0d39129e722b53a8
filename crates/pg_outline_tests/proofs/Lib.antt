mod Atoms
