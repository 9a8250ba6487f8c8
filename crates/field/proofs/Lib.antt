mod ByteSteps
mod ByteDivision
