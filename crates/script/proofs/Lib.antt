pub mod Turns
pub mod RunIsItsSingleCalls
pub mod RoomNeverChangesARun
pub mod RunDetermined
