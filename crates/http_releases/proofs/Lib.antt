mod Shown
mod Founds
mod Chains
mod Dues
mod Statuses
