-- Which lists of accepted requests a value of the code stands for.
use Rattle.std.specs.Prelude.{◌≡◌, List}
use Rattle.alloc_exchange.specs.declared.exchange.Exchange.{Exchange}
use Rattle.alloc_exchange.specs.Exchange.{Accepted, bytes_so_far, last_moment}

pub record StandsFor (exchange : Exchange) (accepted : List Accepted) : Type 0 where
  pub bytes : exchange.collected.items ≡ bytes_so_far accepted
  pub moment : exchange.last ≡ last_moment accepted
