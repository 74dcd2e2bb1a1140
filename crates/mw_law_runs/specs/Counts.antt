-- How many pins each slot has, and how many slots each door counts. This page only lists its modules.
pub mod Alone
pub mod Exact
pub mod Laws
pub mod Ready
pub mod Sides
pub mod CountInvariant
pub mod Then
