pub mod Form
pub mod Values
pub mod Taking
pub mod Reading
pub mod Lines
pub mod Said
