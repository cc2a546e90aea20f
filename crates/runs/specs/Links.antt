-- The net of a list of links, and the weights of a list by their places.
use Rattle.std.specs.Prelude.{ℕ, List, map, length, get_or, slice_index_or}
use Rattle.std.specs.List.{range_with_len}
use Rattle.weights.specs.Kinds.{Kind}
use Rattle.runs.specs.declared.Link.{Link}
use Rattle.runs.specs.Nets.{Net}

-- what stands for a link past the end of a list
abbrev pub no_link : Link
no_link = record { from = 0; to = 0 }

-- the net of a list of links: a link's number is its place in the list
abbrev pub net_of : List Link → Net
net_of ls = record { links = range_with_len 0 (length ls); from = λ l. (get_or ls l no_link).from; to = λ l. (get_or ls l no_link).to }

-- what the weight at a place means, and none past the end
abbrev pub at : (K : Kind) {X : Type 0} → (X → K.carrier) → List X → ℕ → K.carrier
at K m xs t = slice_index_or (map m xs) t K.none
