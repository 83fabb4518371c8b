pub mod AgainRead
pub mod AnswersBack
pub mod Parents
pub mod Texts
pub mod WordsBack
pub mod WordsGood
