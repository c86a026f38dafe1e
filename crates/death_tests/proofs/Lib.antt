pub mod DyingDesk
