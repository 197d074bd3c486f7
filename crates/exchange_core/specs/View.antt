-- What contracts see of the exchange, and what holds between any two lines.
use Rattle.std.specs.Prelude.{◌≡◌, ℕ, List, length, None}
use Rattle.std.specs.FinMap.{FinMap}
use Rattle.events.specs.State.{State}
use Rattle.events.specs.Tags as events
use Rattle.events.specs.declared.Entry.{Entry}
use Rattle.events.specs.declared.Phase.{Phase}
use Rattle.exchange_laws.specs.Steady.{IsSteady}
use Rattle.block_build.specs.Installed.{Installed}
use Rattle.fast_path.specs.Offers.{Present, all_present}
use Rattle.net_types.specs.Exports.{pid_of}
use Rattle.net_types.specs.Keys.{prefix_cmp}
use Rattle.net_types.specs.declared.address.Ip.{Ip}
use Rattle.next_hop_pool.specs.Free.{Tags, free_tags}
use Rattle.prefix_classes.specs.Classes.{Classes}
use Rattle.registry.specs.Registered.{Registered}
use Rattle.route_server.specs.Served.{Served}
use Rattle.exchange_core.specs.Programs.{AreCompiled, inbound_texts, outbound_texts}
use Rattle.exchange_core.specs.declared.programs.Programs.{Programs}

-- the state that the parts of an exchange have together
abbrev pub state_of : Phase → Ip → ℕ → Registered → Served → List (List Ip) → Classes → List (FinMap prefix_cmp Entry) → Installed → List Programs → State
state_of phase base size names served resolved classes told installed programs = record {
  phase = phase;
  base = base;
  size = size;
  capacity = installed.capacity;
  routing = record { participants = names.participants; ports = names.ports; rules = served.rules; named = served.named; routes = served.routes };
  outbound = outbound_texts programs;
  inbound = inbound_texts programs;
  tag = classes.tag;
  kept = classes.kept;
  told = told;
  resolved = resolved;
  table = installed.table;
  owed = None;
}

-- The state is steady, the pool has its tags, of which those are free that aren't live, and the policies are compiled.
pub record IsKept (s : State) (pool : Tags) (programs : List Programs) : Type 0 where
  pub steady : IsSteady s
  pub free : events.free_tags s ≡ free_tags pool
  pub base : pool.base ≡ s.base
  pub size : length pool.taken ≡ s.size
  pub compiled : AreCompiled (pid_of s.routing) programs

-- So it is, and what is kept as present for each participant is what is present for it.
pub record AreParts (s : State) (pool : Tags) (programs : List Programs) (presents : Present) : Type 0 where
  pub kept : IsKept s pool programs
  pub present : presents ≡ all_present s
