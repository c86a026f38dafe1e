pub mod VaultLemmas
