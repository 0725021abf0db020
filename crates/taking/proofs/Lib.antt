-- Laws of a part taken into an open text.
-- the stand-in's
pub mod Squeezing
-- one line, whole or cut
pub mod Lines
-- a part
pub mod Taking
