mod Meeting
mod OtherNames
mod Extending
mod Growing
mod Tries
mod SameTexts
mod Trials
mod WaitingSteps
