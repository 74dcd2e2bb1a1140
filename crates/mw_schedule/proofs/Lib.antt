mod Stops
mod Tenants
mod FormLines
