-- The rules of a sender, spread over the receivers that they send to.
use Rattle.std.specs.Prelude.{Bool, List, [], ◌∷◌, ◌++◌, map, if◌then◌else◌}
use Rattle.classifier.specs.Items.{Item}
use Rattle.classifier.specs.Lines.{add_lines, line, product}
use Rattle.classifier.specs.declared.join.Join.TheVariants.{Union}
use Rattle.classifier.specs.declared.line.Line.{Line}
use Rattle.net_types.specs.Cells.{freed}
use Rattle.net_types.specs.declared.address.Pid.{Pid}
use Rattle.net_types.specs.declared.address.PortNo.{PortNo}
use Rattle.net_types.specs.declared.route.Offer.{Offer}
use Rattle.net_types.specs.declared.route.Part.{Part}
use Rattle.block_build.specs.Offers.{goes_to, has_one_left}
use Rattle.block_build.specs.Receivers.{receivers}
use Rattle.block_build.specs.Views.{Viewed, inbound_of}
use Rattle.block_build.specs.declared.receive.Receiver.{Receiver}

-- the rules of what comes in by a port
abbrev pub restricted : PortNo → List Line → List Line
restricted port [] = []
restricted port (x ∷ xs) = map (line x.results) (freed port x.cube) ++ restricted port xs

-- the rules beside those of one more receiver
abbrev pub beside : List Line → List Line → List Line
beside xs ys = add_lines [] (product Union xs ys)

-- the rules beside those of each receiver that the items send to
abbrev pub spread : Bool → Pid → List Item → List Line → List Receiver → List Line
spread left best items xs [] = xs
spread left best items xs (r ∷ rs) = spread left best items (if goes_to left best items r.who then beside xs r.lines else xs) rs

-- the rules within one of a sender's rules
abbrev pub within_rule : Pid → List Offer → List Receiver → Line → List Line
within_rule best offers rs x = spread (has_one_left offers x.results) best x.results (line [] x.cube ∷ []) rs

-- the rules within each of a sender's rules
abbrev pub blocks : Pid → List Offer → List Receiver → List Line → List Line
blocks best offers rs [] = []
blocks best offers rs (x ∷ xs) = within_rule best offers rs x ++ blocks best offers rs xs

-- the rules of a port and a part by a view, with ports to leave by
abbrev pub built : Viewed → PortNo → Part → List Line
built v port p = add_lines [] (blocks p.best p.offers (receivers (inbound_of v) p.offers) (add_lines [] (restricted port v.outbound)))
