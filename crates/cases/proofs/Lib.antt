pub mod Asked
pub mod OneReply
