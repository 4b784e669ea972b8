mod Holding
mod Loading
