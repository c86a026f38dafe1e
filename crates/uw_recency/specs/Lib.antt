pub mod Recency
