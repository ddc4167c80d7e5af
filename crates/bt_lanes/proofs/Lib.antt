-- operators on vectors of eight words and on words, and the words in a lane
mod VectorLanes
mod Bitwise
mod LaneWords
-- the words of a message block, and of eight messages' blocks
mod BlockWords
mod Rows
mod Shuffles
-- the schedules of eight message blocks, and the rounds of one
mod ScheduleRows
mod SingleRounds
-- the padding of a message, and its digest from there
mod Tails
-- the digests of many messages, by groups of eight
mod Groups
