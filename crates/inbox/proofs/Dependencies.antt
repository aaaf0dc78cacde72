-- Dependencies in all that arrives at a component.
pub mod JointLaw
pub mod KeyLaw
pub mod KeyedOutputs
