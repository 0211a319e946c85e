-- A code's stand after one token more.
use Rattle.std.specs.Prelude.{◌≡◌}
use Rattle.grammar.specs.declared.stand.Stand.{Stand}
use Rattle.grammar.specs.Seen.{Seen}
use Rattle.grammar.specs.State.{open_cells, next_phase, next_cells, next_connectors}

pub record Advanced (a : Stand) (s : Seen) (b : Stand) : Type 0 where
  pub phase : b.phase ≡ next_phase a.phase s
  pub cells : open_cells b.depth b.sets ≡ next_cells (open_cells a.depth a.sets) s
  pub connectors : b.connectors ≡ next_connectors a.phase a.connectors s
