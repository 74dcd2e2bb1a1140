-- What holds of every run of one request, whatever its steps find. This page only lists its modules.
pub mod Order
pub mod HoldOrder
pub mod Runs
