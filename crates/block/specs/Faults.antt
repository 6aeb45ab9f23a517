-- The number of each refusal of a block.
use Rattle.std.specs.Prelude.{ℕ}
use Rattle.block.specs.declared.fault.BlockFault.{BlockFault}
use Rattle.block.specs.declared.fault.BlockFault.TheVariants.{LineCut, AlreadyOut, HostileOut, NotOut, LineWhole, BeyondLines}

-- the number that is returned for a fault
abbrev pub fault_number : BlockFault → ℕ
fault_number LineCut = 31
fault_number AlreadyOut = 32
fault_number HostileOut = 33
fault_number NotOut = 34
fault_number LineWhole = 35
fault_number BeyondLines = 36
