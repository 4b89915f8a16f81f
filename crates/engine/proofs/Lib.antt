mod Exact
mod GainSteps
mod GainTurns
mod PlainSteps
mod AddressSteps
mod Turns
mod Remembered
mod Found
mod Rows
mod RowSteps
mod Lasts
mod Moves
pub mod Lengths
mod Cuts
pub mod ByteSteps
mod PlaceSteps
mod LaneSteps
mod StretchSteps
mod PartSteps
mod FoldSteps
mod LaneCounts
mod Ordered
mod BodySteps
mod SheetSteps
mod PassSteps
mod WholeSteps
mod LayoutSteps
pub mod Promise2
pub mod Unrefused
pub mod Promise1
pub mod Fallen
pub mod Steadiness
mod Summing
pub mod RowSums
pub mod Listed
pub mod InTurn
pub mod Looking
pub mod Carrying
mod Taking
pub mod Clearing
pub mod Rounds
