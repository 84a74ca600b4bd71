pub mod OnBus
