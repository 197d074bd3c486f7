-- The tags of a steady state are few: they are the pool's.
use Rattle.std.proofs.Common.{◌≡◌, length, arith}
use Rattle.events.specs.State.{State}
use Rattle.events.specs.Tags.{tags}
use Rattle.exchange_laws.proofs.Counted.{how_many}
use Rattle.exchange_laws.proofs.TagsAfter.{live_of}
use Rattle.exchange_laws.specs.Steady.{IsSteady}
use Rattle.fast_path.proofs.PortsAndTags.{prefix_with}
use Rattle.job_upkeep.proofs.Tagged.{some_with}
use Rattle.net_types.specs.declared.address.Tag.{Tag}
use Rattle.recompile.specs.Covering.{AreFew}
use Rattle.recompile.specs.Setting.{setting_of}

pub few_steady : (s : State) → IsSteady s → AreFew (setting_of s)
few_steady s steady = record {
  tags = tags s;
  few =
      let count : length (tags s) ≡ s.size = how_many (λ n. let t : Tag = record { 0 = n } in t) 1 s.size in
      let pooled = steady.sized.small in
      omega (arith, count, pooled);
  all_tags = λ t has. let with = prefix_with s t (some_with s t has) in steady.pooled t (live_of s with.prefix t with.tagged);
}
