-- Why a file of the system can't be opened.
use Rattle.curspan.specs.Names.{NotFound, PermissionDenied, IsADirectory, NotADirectory, OutOfMemory, OpenFault}
use Rattle.std.specs.declared.io.ErrorKind.{ErrorKind}
use Rattle.commands.specs.declared.opening.OpenFault.TheVariants as faults

-- by the kind of the system's error
abbrev pub fault_of_kind : ErrorKind → OpenFault
fault_of_kind NotFound = faults.Missing
fault_of_kind PermissionDenied = faults.Denied
fault_of_kind IsADirectory = faults.Folder
fault_of_kind NotADirectory = faults.InFile
fault_of_kind OutOfMemory = faults.NoMemory
fault_of_kind kind = faults.Refused
