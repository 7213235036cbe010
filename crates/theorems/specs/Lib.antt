-- What follows from the rules, stated of their definitions alone. Each statement is proved in proofs/.
pub mod Refusals
pub mod Demand3
pub mod NoFreedom
pub mod Runs
pub mod Shams
pub mod Switches
pub mod Blocked
pub mod Needed
