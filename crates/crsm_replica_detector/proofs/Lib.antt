pub mod Noted
pub mod Appended
pub mod Timely
pub mod Suspected
