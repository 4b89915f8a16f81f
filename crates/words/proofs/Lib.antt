-- Laws that belong to no one function.
mod ChangeSteps
mod DecimalSteps
