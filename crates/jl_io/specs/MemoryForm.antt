-- The fields of a port over memory.
use Rattle.std.specs.Prelude.{◌+◌, ◌<◌, ◌≤◌, vec_len, vec_capacity}
use Rattle.jl_io.specs.declared.memory.MemPort.TheInside.{Inside}

-- the place stands in the input, and the output and the bytes said have all the memory that they will need
pub record IsFormed (port : Inside) : Type 0 where
  pub within : port.place ≤ vec_len port.input
  pub some : 0 < port.piece
  pub output : vec_len port.output + port.room ≤ vec_capacity port.output
  pub said : 256 ≤ vec_capacity port.said
