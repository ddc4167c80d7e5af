pub mod Base
-- what a `Value` holds
pub mod ValueData
-- what the reader finds: ranges of bytes, numerals with the strings and integers that they begin, and each kind of value, part by part
pub mod ReadRanges
pub mod ReadNumerals
pub mod ReadParts
-- how long spellings are, and a value's part of one
pub mod SpellingEnds
-- the laws of spellings and of the first fault, by a reading that is a function of the text
pub mod Representable
pub mod Reading
pub mod ReadingLaws
-- rulesets for the functions' own goals
pub mod Steps
