-- The calls on a pool: what each answers, and the memory that it leaves.
pub mod Refusing
pub mod Replies
pub mod Ready
pub mod Empty
pub mod Held
pub mod Remove
pub mod Fetch
pub mod FetchString
pub mod Totals
