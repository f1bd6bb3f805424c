-- The words of a row that are used, another tape at hand, what each verb of a script does, a line by what it is, what is put into a room,
-- lines one after another, and a line of each verb.
pub mod Used
pub mod Tapes
pub mod Edits
pub mod Equals
pub mod Verdicts
pub mod Judging
pub mod Rooms
pub mod Commands
pub mod Acts
pub mod Folding
pub mod Examples
