mod LineRows
mod WordSteps
mod WordKinds
mod WordWalks
mod LineFaults
mod LineWords
