mod TaskLaws
mod Asks
mod EntryComparison
mod UsedSlots
mod FinishEnds
mod NewStores
mod Numbered
mod Opens
mod Ready
mod RestartedStores
mod Serves
mod StartEnds
mod Steps
pub mod Joined
pub mod Runs
mod TenantSearch
