-- What all players put in is what they got and the rake: `law_nets_add_up_to_the_rake`.
pub mod GotPayments
pub mod Collectors
pub mod PlayerNets
