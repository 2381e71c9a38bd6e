pub mod Loading
