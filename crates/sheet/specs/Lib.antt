-- In reading order: the numbers of the faults, bits, codes, the fields of a sheet, the rules of a whole plan, what a sheet says
-- (decode), the sheet of a plan (encode) and writing it, which routes are hostile, what holds of every plan, all faults of a sheet, and the worked sheet.
pub mod Faults
pub mod Bits
pub mod Layouts
pub mod Codes
pub mod CodesAgree
pub mod Fields
pub mod Rules
pub mod Decode
pub mod Encode
pub mod Writing
pub mod Hostility
pub mod Valid
pub mod Plans
pub mod Survey
pub mod Worked
