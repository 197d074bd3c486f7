-- Numbers of two and of four octets, and a number of items, are read exactly.
use Rattle.std.proofs.Common.{ℕ, zero, suc, ◌+◌, ◌*◌, [], ◌∷◌}
use Rattle.grammar.specs.Formats.{Format, times}
use Rattle.grammar.specs.FormatReading.{Reader, read_four_octets, read_times, read_two_octets}
use Rattle.grammar.specs.Numbers.{four_octets, two_octets}
use Rattle.grammar.specs.Messages.{IsExact}
use Rattle.grammar.proofs.FormatExact.{octet_exact, pure_exact, then_exact}

pub two_octets_exact : {F : Type 0} (fault : F) → IsExact (two_octets fault) (read_two_octets fault)
unfolding read_two_octets
two_octets_exact fault = then_exact _ _ _ _ (octet_exact fault) (λ a. then_exact _ _ _ _ (octet_exact fault) (λ b. pure_exact (a * 256 + b)))

pub four_octets_exact : {F : Type 0} (fault : F) → IsExact (four_octets fault) (read_four_octets fault)
unfolding read_four_octets
four_octets_exact fault = then_exact _ _ _ _ (two_octets_exact fault) (λ a. then_exact _ _ _ _ (two_octets_exact fault) (λ b. pure_exact (a * 65536 + b)))

pub times_exact : {F X : Type 0} (n : ℕ) (item : Format F X) (reader : Reader F X) → IsExact item reader → IsExact (times n item) (read_times n reader)
unfolding times read_times
times_exact zero item reader exact = pure_exact []
times_exact (suc n) item reader exact = then_exact _ _ _ _ exact (λ x. then_exact _ _ _ _ (times_exact n item reader exact) (λ xs. pure_exact (x ∷ xs)))
