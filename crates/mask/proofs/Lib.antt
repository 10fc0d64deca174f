pub mod Bits
pub mod Branch
pub mod Every
pub mod HasBit
pub mod Mask
pub mod Store
