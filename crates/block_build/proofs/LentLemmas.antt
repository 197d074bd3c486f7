-- A view of the classifiers of all participants is one of the policies that they do.
use Rattle.std.proofs.Common.{List, sym, subst}
use Rattle.classifier.specs.Meaning as lines
use Rattle.classifier.specs.declared.line.Line.{Line}
use Rattle.block_build.specs.Laws.{ViewsAreOf}
use Rattle.net_types.specs.Answers.{policy_of}
use Rattle.net_types.specs.Policies.{den}
use Rattle.net_types.specs.Sets.{Member, SameMembers}
use Rattle.net_types.specs.declared.headers.Loc.TheVariants.{Stay}

pub views_are_of : ViewsAreOf
views_are_of ps all part v are sender exporters outbound inbound = record {
  sends = λ h. subst (λ (xs : List Line). SameMembers (lines.meaning xs h Stay) (den ps.named (policy_of ps.outbound part.sender) h Stay)) (sym outbound) (are.sends part.sender sender h);
  sender_cubes = λ c m. are.sender_cubes part.sender sender c (subst (λ (xs : List Line). Member c (lines.cubes_of xs)) outbound m);
  receives = λ o m h. subst (λ (xs : List Line). SameMembers (lines.meaning xs h Stay) (den ps.named (policy_of ps.inbound o.exporter) h Stay)) (sym (inbound o m)) (are.receives o.exporter (exporters o m) h);
  receiver_cubes = λ o m c n. are.receiver_cubes o.exporter (exporters o m) c (subst (λ (xs : List Line). Member c (lines.cubes_of xs)) (inbound o m) n);
}
