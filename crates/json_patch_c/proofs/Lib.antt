mod Owned
mod Answered
