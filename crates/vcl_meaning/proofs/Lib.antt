mod Chains
mod Growing
mod Texts
mod Trees
