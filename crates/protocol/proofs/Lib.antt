pub mod AnswerLaws
pub mod Cases
pub mod Laws
pub mod Shared
pub mod WindowLaws
