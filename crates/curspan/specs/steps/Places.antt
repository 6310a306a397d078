-- The bytes of a standard stream, or of the file that took its place.
use Rattle.curspan.specs.Names.{ℕ, List, Option}
use Rattle.curspan.specs.declared.files.Place.{Place}
use Rattle.curspan.specs.declared.files.Place.TheVariants.{Standard, File}

abbrev pub at_place : {S F : Type 0} → (S → Option (List ℕ)) → (F → Option (List ℕ)) → Place S F → Option (List ℕ)
at_place standard file (Standard stream) = standard stream
at_place standard file (File named) = file named.file
