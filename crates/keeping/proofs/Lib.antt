-- What the four calls on a text in parts leave, for any list of numbers as memory, as the promises use it.
pub mod OfParts
-- a memory with other words before its statements
pub mod Alike
-- statements behind what a memory holds
pub mod Appended
pub mod Behind
pub mod Merged
-- what a part keeps
pub mod Telling
pub mod Numbers
pub mod Places
pub mod Kept
-- an open text read and written
pub mod ReadBorne
pub mod ReadOpened
pub mod ReadStowed
-- the calls
pub mod Free
pub mod Opened
pub mod Closed
pub mod Fed
pub mod Joined
pub mod Ending
