pub mod Fitting
pub mod ReadAgain
pub mod ReadBack
pub mod RepliesBack
pub mod Texts
