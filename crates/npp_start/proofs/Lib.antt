pub mod CoverShape
pub mod ReplyShape
pub mod WalkLaws
pub mod WholeLaws
pub mod ZeroReply
pub mod StartLaws
