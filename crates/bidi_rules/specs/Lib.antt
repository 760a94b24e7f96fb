pub mod InText
pub mod JoinPass
pub mod NeutralPass
pub mod PairPass
pub mod WeakPass
pub mod WeakWalk
