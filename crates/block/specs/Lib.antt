-- In reading order: the numbers of the refusals, what a block means, what each call answers and leaves, and how each make
-- shows its meaning: a wire pair by the fields of its lines, a key cabinet by the places of its keys.
pub mod Faults
pub mod Meaning
pub mod Calls
pub mod Consents
pub mod Fields
pub mod WirePairs
pub mod KeyCabinets
