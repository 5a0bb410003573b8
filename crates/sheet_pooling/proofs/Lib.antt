mod Copied
mod Joined
mod Answers
