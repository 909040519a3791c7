-- Station codes of eight bytes.
use Rattle.std.specs.Prelude.{ℕ, Bool, ◌&&◌, nat_le}
use Rattle.std.specs.declared.cmp.Ordering.{Ordering}
use Rattle.std.specs.Ordering.{ordering_then}
use Rattle.kinds.specs.Order.{by_number}
use Rattle.kinds.specs.declared.code.Code.{Code}

-- two codes, compared from the left
abbrev pub by_code : Code → Code → Ordering
by_code x y =
    ordering_then (by_number x.a y.a)
    (ordering_then (by_number x.b y.b)
    (ordering_then (by_number x.c y.c)
    (ordering_then (by_number x.d y.d)
    (ordering_then (by_number x.e y.e)
    (ordering_then (by_number x.f y.f)
    (ordering_then (by_number x.g y.g) (by_number x.h y.h)))))))

-- a byte from 33 to 126
abbrev pub printable : ℕ → Bool
printable b = nat_le 33 b && nat_le b 126

-- a code of such bytes
abbrev pub fit_code : Code → Bool
fit_code x = printable x.a && printable x.b && printable x.c && printable x.d && printable x.e && printable x.f && printable x.g && printable x.h
