-- The line that no command gives.
use Rattle.std.specs.Prelude.{ℕ, List, codes}

-- the line for words that ask for nothing that is built
abbrev pub usage_line : List ℕ
usage_line = codes "usage: blazes label|derive|plan TOPOLOGY | run TOPOLOGY DATA SCHEDULE | make TOPOLOGY DATA [--seed N] | soak [--seed N] [--count N] | shard TOPOLOGY COMPONENT COLUMN BOUND.. | restart TOPOLOGY DATA SCHEDULE | witness TOPOLOGY DATA SCHEDULE SCHEDULE | why TOPOLOGY DATA SCHEDULE STREAM REPLICA INDEX\n"
