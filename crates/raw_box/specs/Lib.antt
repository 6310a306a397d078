pub mod Nullable
