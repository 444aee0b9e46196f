pub mod Checks
pub mod Ends
pub mod GivenReplies
pub mod Pages
pub mod Registrations
pub mod Replies
pub mod Wanted
