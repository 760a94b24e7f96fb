mod ExplicitPass
mod ListPass
mod OpenersLemmas
mod Scans
mod Separators
mod StatusLemmas
mod Terminators
